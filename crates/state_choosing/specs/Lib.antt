pub mod First
pub mod ToServe
pub mod Words
