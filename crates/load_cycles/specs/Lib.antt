pub mod Cycles
pub mod Openings
