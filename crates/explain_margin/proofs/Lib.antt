-- Laws of the margin.
pub mod Laws
