-- The ticks of rows, and of the turns of a loop pass by pass.
pub mod Capped
pub mod Rounds
