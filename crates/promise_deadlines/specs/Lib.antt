pub mod Model
pub mod Machine
