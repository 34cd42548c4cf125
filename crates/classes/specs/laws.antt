-- The laws of classes, with their proofs.
pub mod Classes
pub mod Kinds
pub mod ClassOf
pub mod Values
pub mod Step
