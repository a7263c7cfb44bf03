-- Expressions: their leaves and operators, the variables that they name, what they come to.
pub mod LeavesLaws
mod OperatorsLaws
mod Wide
mod Keeping
mod Evaluating
mod Filling
mod Passing
