-- What rows need so that one of them gets the value of a class, and the laws of that.
pub mod Fits
pub mod laws
