-- The laws of Search, with their proofs.
pub mod Events
pub mod Verdict
