-- Laws of the two calls of a live run.
pub mod Playing
pub mod Stepping
pub mod Answering
pub mod Asking
pub mod Starting
