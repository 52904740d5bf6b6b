-- The mode and its streaks.
pub mod Mode
