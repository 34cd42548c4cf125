-- One step of a trace as the code answers it, and the laws of that.
pub mod Steps
pub mod laws
