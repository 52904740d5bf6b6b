-- What a sample is by its thresholds.
pub mod Thresholds
