-- The refusal numbers, which of several faults is given, the laws of any list of checks, and an answer of bytes.
pub mod Refusals
pub mod Codes
pub mod Checks
pub mod Written
