-- What stands in the margin of a script.
pub mod Figures
pub mod Columns
pub mod Nesting
pub mod Places
