-- What the contracts of the table cite.
pub mod Code
pub mod Shapes
pub mod Packing
pub mod Paired
