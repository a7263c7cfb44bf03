-- The trip count of a loop: its turns in one entry.
pub mod Needs
pub mod Verdicts
