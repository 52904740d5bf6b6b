-- What a caller of the governor may rely on: the statements' own definitions.
pub mod Reading
pub mod Calls
pub mod Counts
pub mod Times
