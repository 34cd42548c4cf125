-- What it is for a state of the code to be a state of the definitions, and the laws of that.
pub mod Readings
pub mod State
pub mod Start
pub mod laws
