-- What is asked of a move, and the laws of that.
pub mod Moves
pub mod laws
