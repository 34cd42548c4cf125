-- What the framing functions answer, in terms of the definitions, and the laws of that.
pub mod Blocks
pub mod Framing
pub mod laws
