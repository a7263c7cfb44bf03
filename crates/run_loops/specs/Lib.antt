-- The loops of the rows.
pub mod Loops
