-- What the call answers; then how its refusals come together, what an accepted call relies on and offers, and how its words are read back.
pub mod Generate
pub mod Told
pub mod Refusing
pub mod Accepted
pub mod Offered
pub mod ReadBack
