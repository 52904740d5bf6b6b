-- An observation on words.
pub mod ObserveWords
