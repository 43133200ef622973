pub mod Words
pub mod Setting
pub mod Answers
