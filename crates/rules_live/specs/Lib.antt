-- Runs that go frame by frame (request 15): the cues of a run, a live run, and what is claimed of it.
pub mod Cues
pub mod Live
pub mod LiveRuns
pub mod LiveState
pub mod LiveCalls
