-- Lists, below everyone: tests, the search for one, filters, records in words, a stable sort, and the front of a buffer.
pub mod Tests
pub mod Any
pub mod AnyPlace
pub mod Filter
pub mod Twice
pub mod Flat
pub mod Records
pub mod Sort
pub mod Sorting
pub mod Cutting
pub mod Ordered
pub mod Inserting
pub mod Merge
pub mod Halves
pub mod Halving
pub mod Writes
