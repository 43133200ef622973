-- Laws that the functions' proofs cite, and the uniqueness of what the public functions answer. Assumes nothing.
pub mod Bounds
pub mod RowLaws
pub mod Steady
pub mod Ranges
pub mod Settle
pub mod Sheets
