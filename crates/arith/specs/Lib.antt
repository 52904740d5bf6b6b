-- What the arithmetic means: each public function's definition, and its laws beside it.
pub mod Floats
pub mod Whole
pub mod Root
pub mod Logarithm
