-- The laws of needs, with their proofs.
pub mod Fits
