-- The ticks of rows, and of the turns of a loop pass by pass.
pub mod Caps
pub mod Loops
pub mod Values
