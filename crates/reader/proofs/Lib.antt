-- The reader: a file to its lines, its rows and the table of them.
mod Bare
pub mod RowsLaws
mod Words
mod Counts
pub mod NextLine
pub mod FillRanges
mod Heads
pub mod NestingLaws
pub mod FillRows
pub mod RowLines
pub mod Loads
pub mod Packs
