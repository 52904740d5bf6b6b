-- Runs of calls on words.
pub mod Fitting
pub mod WordRuns
