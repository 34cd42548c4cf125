-- What a scenario starts with, and the laws of that.
pub mod Start
pub mod laws
