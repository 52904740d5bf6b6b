-- `replay`, from bytes to bytes.
pub mod Replay
