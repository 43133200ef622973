pub mod Pairs
pub mod Prints
pub mod Buffers
