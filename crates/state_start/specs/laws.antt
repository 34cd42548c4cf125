-- The laws of what a scenario starts with, with their proofs.
pub mod Names
pub mod Start
