pub mod Formed
pub mod Refusals
