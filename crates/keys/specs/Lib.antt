-- The order of keys.
pub mod KeySteps
pub mod Keys
pub mod KeyOrder
pub mod Parts
pub mod TotalOrder
pub mod Lesser
