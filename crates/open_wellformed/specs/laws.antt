-- The laws of well-formed events, with their proofs.
pub mod WellFormed
pub mod IllFormed
