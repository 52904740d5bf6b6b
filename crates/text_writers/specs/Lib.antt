-- Text that is written, and the laws by which it is.
pub mod Rows
pub mod Steps
