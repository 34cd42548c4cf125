-- The laws of new values, with their proofs.
pub mod Values
pub mod Next
pub mod Arrays
