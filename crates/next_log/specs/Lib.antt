-- The log after one more decision.
pub mod Next
