-- Numbers in text.
pub mod Numbers
