-- From the table's test to what `ln_1p` answers.
pub mod Entries
pub mod Cell
pub mod Accurate
pub mod Rounded
pub mod Answer
