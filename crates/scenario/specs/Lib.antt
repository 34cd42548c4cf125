-- What Open answers, in terms of the definition, and the laws of that.
pub mod Opened
pub mod laws
