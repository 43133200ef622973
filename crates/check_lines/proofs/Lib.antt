-- Laws that the functions' proofs cite, and whose lines are printed. Assumes nothing.
pub mod Shown
