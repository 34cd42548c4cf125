-- The laws of texts, with their proofs.
pub mod Decimal
pub mod Grows
pub mod Steps
pub mod Verdict
pub mod Worked
