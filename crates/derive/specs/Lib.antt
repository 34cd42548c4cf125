-- What Derive's functions answer, in terms of the definitions.
pub mod Absent
pub mod laws
