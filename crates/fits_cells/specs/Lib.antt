-- A word in its column.
pub mod Cells
