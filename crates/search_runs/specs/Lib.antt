-- The runs whose moves a list of traces goes on with, as the code answers them, and the laws of that.
pub mod Runs
pub mod laws
