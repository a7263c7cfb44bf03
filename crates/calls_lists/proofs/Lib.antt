-- Laws of the lists of lengths.
pub mod Sums
pub mod Extents
pub mod Fits
pub mod Splices
