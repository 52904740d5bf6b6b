-- The logarithm between the brackets of its series.
pub mod Series
pub mod Terms
pub mod Tangent
pub mod Tail
pub mod Rise
pub mod Grid
pub mod Beside
pub mod Entries
pub mod Accurate
