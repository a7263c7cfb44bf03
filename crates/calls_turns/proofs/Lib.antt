-- Laws of a turn.
pub mod Turning
pub mod Standing
