-- Laws that only the proofs of the code need.
pub mod Absolute
pub mod SquareRoot
pub mod Normal
pub mod Decided
