-- The office reader. Assumes nothing.
pub mod Readers
