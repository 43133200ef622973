pub mod Writer
pub mod Long
pub mod Answers
