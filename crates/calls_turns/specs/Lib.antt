-- Scripts in their frames, as code holds them.
pub mod Progress
