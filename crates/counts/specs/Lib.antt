-- Counts at the ends of a u64 and of a float.
pub mod Counts
