-- The laws of records, with their proofs.
pub mod Kinds
pub mod Records
pub mod Roles
pub mod Events
pub mod Absent
pub mod Runs
pub mod Begins
pub mod RoleRecords
