-- The proofs of what a caller of the governor may rely on.
pub mod Streaks
pub mod Thresholds
pub mod Turns
pub mod ModeRead
pub mod Answers
pub mod CallByCall
pub mod Sound
pub mod Counts
pub mod Times
