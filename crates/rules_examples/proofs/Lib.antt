-- Examples that take long to compute.
pub mod ManyTurns
