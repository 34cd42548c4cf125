-- The laws of the runs that a list goes on with, with their proofs.
pub mod Runs
