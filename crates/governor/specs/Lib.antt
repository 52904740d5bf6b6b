-- One observation: what refuses it, and the state after it.
pub mod Observe
