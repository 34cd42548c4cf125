-- The laws of completions, with their proofs.
pub mod Rows
pub mod Search
