-- A candidate and its words, L0's among them; then what stands once they are written.
pub mod Words
pub mod L0
pub mod Written
pub mod Laws
