-- The laws of runs in a file, with their proofs.
pub mod Blocks
pub mod Events
pub mod Found
pub mod Listed
pub mod Event
pub mod Trusted
pub mod Given
pub mod Opened
