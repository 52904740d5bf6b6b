-- Ranges of keys, and their laws.
pub mod Ranges
pub mod Least
pub mod Halves
