-- What the test of a partial choice promises, and the laws of that.
pub mod Possible
pub mod Tests
pub mod laws
