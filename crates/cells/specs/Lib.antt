-- Cells and the look-up of classes, and their laws.
pub mod Cells
pub mod laws
