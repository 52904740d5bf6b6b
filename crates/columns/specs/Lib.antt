-- The columns of the log's table.
pub mod Columns
pub mod Floats
