pub mod Fields
pub mod Lines
pub mod Jitters
pub mod Neat
pub mod Texts
pub mod Accepted
