pub mod Rooms
pub mod Prints
pub mod Pieces
