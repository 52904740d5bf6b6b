-- What only the proofs of the code need.
pub mod Telling
