-- The classes that unset variables may still get, and the laws of that.
pub mod Completions
pub mod laws
