-- Proofs beside the functions' own.
pub mod Decided
