-- Laws of runs that the functions of this crate rest on. Assumes nothing.
pub mod Moments
pub mod Once
