-- The laws of framing, with their proofs.
pub mod Frame
