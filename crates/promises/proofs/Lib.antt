-- The proofs of what a caller may rely on.
pub mod Decimals
pub mod Rows
pub mod Written
pub mod Drawn
pub mod Numbers
pub mod Vector
pub mod ProbeBelow
pub mod Chain
pub mod Estimable
pub mod Round
pub mod LastRead
pub mod Governed
