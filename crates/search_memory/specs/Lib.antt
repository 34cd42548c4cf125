-- What the memory of Search holds, and its laws.
pub mod Memory
pub mod laws
