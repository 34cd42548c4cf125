-- The laws of moves, with their proofs.
pub mod Allowed
pub mod After
