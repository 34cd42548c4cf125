-- What the functions on marks at role level answer, in terms of the definitions, and their laws.
pub mod Marks
pub mod Sure
pub mod laws
