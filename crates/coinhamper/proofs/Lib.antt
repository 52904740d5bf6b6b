-- What the exports' contracts decide, and what C is told of an answer.
pub mod Decided
pub mod Counted
