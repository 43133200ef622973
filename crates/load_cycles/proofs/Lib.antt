-- Laws that the functions' proofs cite, and the uniqueness of what the public functions answer. Assumes nothing.
pub mod Bounds
pub mod Cycling
pub mod Settle
