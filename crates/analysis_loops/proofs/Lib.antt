-- What a loop's trip count is read from.
pub mod Heads
pub mod WaysLaws
pub mod Filling
