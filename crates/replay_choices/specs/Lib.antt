-- New values of a step as the code answers them, and the laws of that.
pub mod Choices
pub mod laws
