-- The tables of a level and their order; what that order is; how many there can be.
pub mod Levels
pub mod Ordered
pub mod Bounds
