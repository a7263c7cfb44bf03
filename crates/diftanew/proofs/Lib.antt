-- How the numbers lie.
pub mod Laid
pub mod Figured
