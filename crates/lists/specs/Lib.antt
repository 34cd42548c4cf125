-- What the functions on lists of rows answer, in terms of the definitions, and the laws of that.
pub mod Lists
pub mod laws
