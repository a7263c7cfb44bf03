-- The analysis: one walk over the blocks of a script.
pub mod Tallies
pub mod Enter
pub mod Known
pub mod Fold
pub mod Own
pub mod Whole
