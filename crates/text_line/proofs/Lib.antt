pub mod Numbers
pub mod Ways
pub mod Texts
pub mod Short
pub mod Judged
