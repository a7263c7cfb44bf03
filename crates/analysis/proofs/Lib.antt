-- The analysis: one walk over the blocks of a script.
pub mod Laws
pub mod Parts
pub mod Priced
pub mod Bits
pub mod Bodies
pub mod Counts
pub mod Folding
pub mod Going
pub mod Legals
pub mod Lone
pub mod Results
pub mod Totals
pub mod Verdicts
