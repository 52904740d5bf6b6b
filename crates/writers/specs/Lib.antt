-- The numbers of a candidate's tables, and the laws by which they are written.
pub mod Writers
pub mod Steps
pub mod Alone
