-- Laws that the functions' proofs cite. Assumes nothing.
pub mod Gone
