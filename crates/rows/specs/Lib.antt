-- The rows of a table of bytes, and their laws.
pub mod Rows
pub mod Kinds
pub mod laws
