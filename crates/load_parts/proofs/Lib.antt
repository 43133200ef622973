-- The parts of a demand together are the demand. Assumes nothing.
pub mod Adds
