-- The reporting counters.
pub mod Counters
