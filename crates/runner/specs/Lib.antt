-- The run, from its start or on from where it paused.
pub mod Answered
pub mod Runs
pub mod Goes
