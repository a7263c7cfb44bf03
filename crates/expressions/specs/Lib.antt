-- Expressions: their leaves and operators, the variables that they name, what they come to.
pub mod Leaves
pub mod Operators
pub mod Keeping
pub mod Evaluating
