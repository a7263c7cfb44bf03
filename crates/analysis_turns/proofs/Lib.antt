-- The trip count of a loop: its turns in one entry.
pub mod Few
pub mod Answers
pub mod MovesLaws
pub mod Products
pub mod Verdicts
