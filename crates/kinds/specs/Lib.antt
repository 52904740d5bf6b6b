-- The types that carry 01's numbers: those numbers, the dominant pressure, and the numbers that tune the mode.
pub mod Numbers
pub mod Vector
pub mod Tuning
