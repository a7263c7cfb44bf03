-- What is lent, in parts.
pub mod Parts
