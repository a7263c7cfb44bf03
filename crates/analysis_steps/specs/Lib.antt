-- The steps of a row and of a variable in a body, and the only row that assigns one.
pub mod Body
pub mod Sets
pub mod Tree
pub mod Soles
