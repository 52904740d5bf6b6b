-- Candidates and estimates in lent words.
pub mod Candidates
