pub mod Cable
pub mod AtOnce
