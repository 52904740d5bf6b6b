-- Which tables meet a range of keys.
pub mod Overlaps
