-- The promises of the calls.
pub mod Kept
pub mod Framing
