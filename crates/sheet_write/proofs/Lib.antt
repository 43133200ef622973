pub mod Back
pub mod Accepted
pub mod Rounds
pub mod Writing
pub mod Long
