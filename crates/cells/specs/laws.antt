-- The laws of cells, with their proofs.
pub mod Cells
pub mod Listed
pub mod Found
