-- Laws that the functions' proofs cite. Assumes nothing.
pub mod Calls
pub mod Pieces
