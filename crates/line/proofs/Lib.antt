pub mod Puts
pub mod Signs
