-- What `estimate_candidates` refuses.
pub mod Faults
pub mod Steps
