-- The laws of marks, with their proofs.
pub mod Filled
pub mod Values
pub mod Sound
pub mod Exact
pub mod Steps
pub mod Learn
