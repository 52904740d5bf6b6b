-- Which states are sound.
pub mod Sound
