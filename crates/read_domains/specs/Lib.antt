-- Domains of variables and sets of classes, and the laws of that.
pub mod Domains
pub mod laws
