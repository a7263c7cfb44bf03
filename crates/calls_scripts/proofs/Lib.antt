-- Laws of the scripts that are to play together.
pub mod Readiness
pub mod Tables
mod Entering
