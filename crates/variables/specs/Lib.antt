-- The variables that a read sets and the values that they may take, as the code finds them, and the laws of that.
pub mod Types
pub mod Variables
pub mod laws
