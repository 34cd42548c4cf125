-- The laws of lists of rows, with their proofs.
pub mod Clear
pub mod Knowledge
pub mod Kinds
