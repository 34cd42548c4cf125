-- The laws of new values, with their proofs.
pub mod Values
