-- The laws of domains, with their proofs.
pub mod Sets
pub mod Values
