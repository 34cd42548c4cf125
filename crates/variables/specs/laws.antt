-- The laws of variables and their values, with their proofs.
pub mod Beneath
pub mod Unset
pub mod Values
pub mod Spans
pub mod Rows
