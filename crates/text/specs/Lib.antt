-- The text that the programs print, and the laws of that.
pub mod Text
pub mod laws
