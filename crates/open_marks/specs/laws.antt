-- The laws of marks at role level, with their proofs.
pub mod Rows
pub mod Marks
pub mod Readable
pub mod Sure
pub mod Kept
