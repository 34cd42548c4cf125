-- What it is for the classes of cells to be right, how they are filled, and their laws.
pub mod Classes
pub mod Filled
pub mod laws
