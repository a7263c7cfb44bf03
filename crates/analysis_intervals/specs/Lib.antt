-- Intervals, and comparisons over them.
pub mod Sorts
pub mod Wide
pub mod Changes
pub mod Env
