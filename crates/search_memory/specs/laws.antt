-- The laws of the memory, with their proofs.
pub mod Words
pub mod Keys
pub mod Slots
pub mod Variables
