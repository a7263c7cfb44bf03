-- What the two calls of a live run answer.
pub mod Plays
pub mod Told
