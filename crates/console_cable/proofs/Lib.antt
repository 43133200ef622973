pub mod Cables
pub mod Joined
