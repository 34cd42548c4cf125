-- The laws of answers, with their proofs.
pub mod Answers
pub mod Checks
pub mod Numbers
