-- What the contracts say, beside the functions' proofs.
pub mod Decided
