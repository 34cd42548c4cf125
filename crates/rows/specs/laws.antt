-- The laws of rows, with their proofs.
pub mod Decode
pub mod Numbers
pub mod Kinds
pub mod Table
pub mod Shape
pub mod Places
pub mod Agents
pub mod Ranges
pub mod Made
