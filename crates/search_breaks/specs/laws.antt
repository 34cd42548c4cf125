-- The laws of Search, with their proofs.
pub mod Walked
pub mod Finds
pub mod Entries
pub mod Bytes
pub mod Walk
pub mod Move
pub mod Run
pub mod Choose
