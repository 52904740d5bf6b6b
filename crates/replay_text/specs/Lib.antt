-- The text of `replay`: its lines and their fields.
pub mod Lines
