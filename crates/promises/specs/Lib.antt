-- What a caller may rely on: the statements' own definitions.
pub mod Drawn
pub mod Rows
pub mod Vector
pub mod Round
