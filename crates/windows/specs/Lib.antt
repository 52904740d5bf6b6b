-- The window over the read counters, and what refuses it.
pub mod Windows
