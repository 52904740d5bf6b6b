-- A decision added to the log.
pub mod Recording
