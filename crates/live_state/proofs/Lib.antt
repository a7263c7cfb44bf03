-- Laws of the state: its questions, what it says, what is written.
pub mod StateLaws
pub mod Reading
pub mod Passing
pub mod Writing
pub mod RowKinds
