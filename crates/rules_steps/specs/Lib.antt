-- The step of a variable.
pub mod Joins
pub mod Ends
