-- Laws of joined steps.
pub mod Near
