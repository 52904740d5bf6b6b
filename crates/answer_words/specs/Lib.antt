-- Answers as words.
pub mod AnswerWords
