-- The laws of what a walk finds, with their proofs.
pub mod Findings
