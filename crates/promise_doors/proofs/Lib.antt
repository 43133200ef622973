pub mod Limits
pub mod Held
pub mod Doors
