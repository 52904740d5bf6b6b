-- The calls for C and Rust.
pub mod Governed
pub mod Merges
