-- The governor's state and its clock.
pub mod Clock
pub mod Room
pub mod State
