-- Laws of the public calls.
pub mod Laws
pub mod Framing
