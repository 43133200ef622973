pub mod Widths
pub mod Written
pub mod Putting
pub mod Appending
pub mod Finishing
