-- The laws of Search as the code answers it.
pub mod laws
