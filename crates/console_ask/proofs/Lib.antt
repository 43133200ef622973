pub mod Lines
pub mod Told
pub mod States
pub mod Sheets
pub mod Once
pub mod Answers
pub mod Fits
