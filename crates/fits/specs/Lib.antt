-- The log as a binary table of the FITS Standard 4.0. Numbers in brackets are its sections.
pub mod Rows
pub mod File
