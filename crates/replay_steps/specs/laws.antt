-- The laws of a step, with their proofs.
pub mod Steps
