-- The machine's states in memory.
pub mod States
