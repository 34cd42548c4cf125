-- The laws of partial choices, with their proofs.
pub mod Filled
pub mod Refused
