-- The laws of states and moves, with their proofs.
pub mod Readings
pub mod Grown
pub mod Moves
pub mod Ready
pub mod Start
pub mod Active
