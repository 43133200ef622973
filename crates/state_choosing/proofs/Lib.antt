pub mod Choice
pub mod Best
pub mod Passing
pub mod Looking
