-- Pressures, their smoothing, and the pause.
pub mod Pacing
pub mod Pressure
pub mod Sample
pub mod Smoothing
