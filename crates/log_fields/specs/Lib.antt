-- One line of the log's text.
pub mod Line
