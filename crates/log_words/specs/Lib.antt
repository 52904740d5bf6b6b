-- A log beside its head.
pub mod LogWords
