-- The choice on lent words.
pub mod ChoiceWords
