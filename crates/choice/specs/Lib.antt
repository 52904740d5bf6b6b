-- The choice with its focus.
pub mod PickAnswer
pub mod Choice
