pub mod Sums
pub mod Divide
pub mod Parts
pub mod Fits
pub mod Gates
pub mod Fields
pub mod Packing
pub mod Arrays
