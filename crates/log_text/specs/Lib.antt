-- The log's text, and the log that it is.
pub mod Text
