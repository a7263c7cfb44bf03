-- What a loop's trip count is read from.
pub mod Heads
pub mod Ways
pub mod Found
pub mod Loops
