-- The laws of tables of bytes, with their proofs, a file for each subject.
pub mod Table
pub mod Bytes
pub mod Below
pub mod Fits
pub mod Repeats
pub mod Refusal
pub mod Passed
pub mod Numbers
