-- What a program prints of a verdict, and the laws of the verdict's text.
pub mod Prints
pub mod laws
