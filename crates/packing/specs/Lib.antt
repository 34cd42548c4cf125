-- How the code's answers are packed into 64 bits.
pub mod Packing
