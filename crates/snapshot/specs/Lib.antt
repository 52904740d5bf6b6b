-- The snapshot.
pub mod Snapshot
