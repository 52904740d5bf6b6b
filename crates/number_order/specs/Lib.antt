-- The tables by number: their order, and whether a number comes twice.
pub mod Numbers
pub mod Read
pub mod Ordered
pub mod Front
pub mod Repeats
pub mod Fits
pub mod Neighbours
