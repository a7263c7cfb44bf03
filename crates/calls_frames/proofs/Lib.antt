-- Laws of the frames.
pub mod Playing
pub mod Telling
pub mod Answering
pub mod Refusing
