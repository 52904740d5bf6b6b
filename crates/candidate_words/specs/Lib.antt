-- Which merges could be done next; then the laws by which they are counted and written, and what they can be.
pub mod Candidates
pub mod Writing
pub mod Levels
pub mod Bounds
pub mod Offered
