-- What a walk finds, what that becomes, and the laws of these.
pub mod Findings
pub mod laws
