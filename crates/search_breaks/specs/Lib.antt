-- Search as the code answers it, and the laws of that.
pub mod Walk
pub mod laws
