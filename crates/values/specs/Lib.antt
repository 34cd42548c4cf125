-- New values of a read, given to its variables one after the other, and the laws of that.
pub mod Values
pub mod laws
