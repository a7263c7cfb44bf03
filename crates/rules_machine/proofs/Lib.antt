-- The machine over the rows does what the run does; a run with more or fewer ticks.
pub mod Fewer
pub mod RunMore
pub mod RowMachineRuns
pub mod PairsIn
pub mod RunCapped
pub mod Examples
pub mod Nested
pub mod StaysIn
pub mod LimitsKept
