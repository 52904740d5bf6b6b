-- Batches, and their laws.
pub mod Offers
pub mod Batches
pub mod Least
