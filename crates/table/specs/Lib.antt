-- What the table's functions answer, in terms of the definitions, and the laws of that.
pub mod Check
pub mod laws
