-- Laws of several scripts in one frame, and examples.
pub mod Resumed
pub mod FramesAsAlone
pub mod Cut
pub mod FrameExamples
pub mod Examples
