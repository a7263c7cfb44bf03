-- The report's text.
pub mod Pieces
pub mod Lines
