-- The laws of Open, with their proofs.
pub mod Open
pub mod Blocks
