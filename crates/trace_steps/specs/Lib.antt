pub mod Turns
pub mod Trace
pub mod Pieces
