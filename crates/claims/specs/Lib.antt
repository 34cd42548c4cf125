-- Which claim a state breaks, as the code answers it, and the laws of that.
pub mod AtRun
pub mod laws
