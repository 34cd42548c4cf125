-- The laws of Derive, with their proofs.
pub mod Derive
pub mod Answer
