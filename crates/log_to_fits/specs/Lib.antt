-- What the program writes of a text that is read.
pub mod Table
