-- The log read back.
pub mod Recent
