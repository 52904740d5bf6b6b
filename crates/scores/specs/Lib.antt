-- The score of an estimate.
pub mod Score
