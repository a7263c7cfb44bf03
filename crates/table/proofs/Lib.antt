-- The laws that belong to no one function.
pub mod Numbers
pub mod Laws
pub mod Limits
pub mod Same
pub mod Pairing
pub mod Whole
