-- The laws of broken claims, with their proofs.
pub mod Event
pub mod Run
pub mod State
