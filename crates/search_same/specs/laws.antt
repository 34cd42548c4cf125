-- The laws of states with equal positions and values, with their proofs.
pub mod Names
pub mod Clean
pub mod Placed
pub mod Memory
pub mod Known
pub mod Start
