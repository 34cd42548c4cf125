-- The laws of Replay, with their proofs.
pub mod Follow
