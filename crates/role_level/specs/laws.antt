-- The laws of role level, with their proofs.
pub mod RoleLevel
pub mod Right
