-- What makes tables and over-budget entries bad, and the limits of all lent words.
pub mod Limits
pub mod Tables
