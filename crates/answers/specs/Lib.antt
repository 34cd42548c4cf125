-- The definitions' answers as the code gives them, and the laws of that.
pub mod Answers
pub mod laws
