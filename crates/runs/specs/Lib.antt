-- What it is to say where runs, their events and their agents stand, and the laws of that.
pub mod Runs
pub mod Given
pub mod Opened
pub mod laws
