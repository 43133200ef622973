pub mod Texts
pub mod Obeys
pub mod Fits
pub mod Steps
pub mod Cables
