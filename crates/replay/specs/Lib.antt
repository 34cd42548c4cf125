-- Replay as the code answers it, and the laws of that.
pub mod Replay
pub mod laws
