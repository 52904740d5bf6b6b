-- The candidates with their scores, and the search for the best of them.
pub mod Choices
pub mod Search
