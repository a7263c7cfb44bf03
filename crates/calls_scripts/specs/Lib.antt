-- Scripts as they are held for the frames.
pub mod Held
