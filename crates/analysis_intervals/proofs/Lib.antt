-- Intervals, and comparisons over them.
pub mod Fits
pub mod Small
pub mod Sorts
pub mod Words
