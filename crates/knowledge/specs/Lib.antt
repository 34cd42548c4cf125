-- What it is for marks to be exact, how marks of classes grow, and their laws.
pub mod Marks
pub mod Steps
pub mod laws
