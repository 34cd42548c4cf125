-- The laws of the definitions, and the page of theorems.
pub mod laws
pub mod Theorems
