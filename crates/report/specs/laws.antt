-- The laws of the verdict's text, with their proofs.
pub mod Verdict
