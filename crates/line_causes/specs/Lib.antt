-- The cause for which a line has not the shape that its place wants.
pub mod Shapes
pub mod Breaks
pub mod Causes
