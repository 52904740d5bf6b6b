-- The first table with a number, and its laws.
pub mod Lookups
pub mod Members
pub mod Found
pub mod Only
