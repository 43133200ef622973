pub mod Takings
pub mod Scripts
pub mod Whole
