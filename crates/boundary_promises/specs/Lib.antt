-- Runs of calls on words.
pub mod WordRuns
