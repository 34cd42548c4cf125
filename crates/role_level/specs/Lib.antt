-- Role level, and its laws.
pub mod RoleLevel
pub mod laws
