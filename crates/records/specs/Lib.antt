-- What the functions on records answer, in terms of the definitions, and the laws of that.
pub mod Records
pub mod Kinds
pub mod RoleRecords
pub mod laws
