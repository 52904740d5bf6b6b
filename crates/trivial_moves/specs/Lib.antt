-- Which tables are free to move and in which order; then the laws by which they are found and cut.
pub mod Moves
pub mod Laws
pub mod Best
