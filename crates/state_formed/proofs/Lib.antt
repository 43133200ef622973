pub mod WellFormed
pub mod Standing
pub mod Counted
pub mod Pass
pub mod Waiting
pub mod Whole
