-- Several scripts in one frame, and that each ends in time.
pub mod Frames
pub mod InTime
