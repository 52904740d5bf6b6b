-- A governor's state in words.
pub mod StateWords
