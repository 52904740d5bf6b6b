-- What makes candidates and estimates bad; then which floats are in 0 to 1.
pub mod Candidates
pub mod InUnit
