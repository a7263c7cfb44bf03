-- The run, from its start or on from where it paused.
pub mod Limits
pub mod Loop
pub mod Start
pub mod Tests
pub mod Goes
