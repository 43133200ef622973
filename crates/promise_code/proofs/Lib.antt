-- Demand 3 of the code. Assumes nothing.
pub mod Once
pub mod OfSheet
