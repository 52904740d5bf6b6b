-- Lent words as records, and the record at a place.
pub mod Tables
pub mod Words
pub mod Joined
