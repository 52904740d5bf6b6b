-- A decision and its words.
pub mod Decision
