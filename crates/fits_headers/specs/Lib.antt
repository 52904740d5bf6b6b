-- Both headers of the log's table, as the FITS Standard 4.0 has them. Numbers in brackets are its sections.
pub mod Text
pub mod Cards
pub mod Headers
pub mod Places
