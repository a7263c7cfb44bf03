-- The steps of a row and of a variable in a body, and the only row that assigns one.
pub mod Ends
pub mod Laws
pub mod Moving
pub mod Sets
pub mod Stepping
pub mod Tags
pub mod Walking
pub mod Soles
