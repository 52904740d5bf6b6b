-- The log of decisions.
pub mod Log
