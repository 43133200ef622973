pub mod ByField
pub mod Turns
pub mod AtOnce
pub mod Pieces
