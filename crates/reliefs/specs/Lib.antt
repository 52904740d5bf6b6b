-- What share of a level's excess some bytes are.
pub mod Reliefs
