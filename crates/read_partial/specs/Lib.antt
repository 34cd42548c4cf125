-- What the test of a partial choice of a read's values promises, and the laws of that.
pub mod Partial
pub mod laws
