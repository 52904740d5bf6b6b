-- The decision that a choice leads to.
pub mod Trace
pub mod Laws
