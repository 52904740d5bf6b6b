-- One line's fields.
pub mod Fields
