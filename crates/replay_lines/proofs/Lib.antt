pub mod Begins
pub mod Steps
pub mod Pages
pub mod Once
pub mod Examples
