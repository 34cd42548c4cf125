-- What the functions on well-formed events answer, in terms of the definitions, and their laws.
pub mod WellFormed
pub mod laws
