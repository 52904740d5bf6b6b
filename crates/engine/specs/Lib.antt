-- The observation of the running engine: what refuses it, and the state after it.
pub mod Engine
