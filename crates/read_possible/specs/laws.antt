-- The laws of rows that can still be derivable, with their proofs.
pub mod Known
pub mod Ranges
pub mod Tests
