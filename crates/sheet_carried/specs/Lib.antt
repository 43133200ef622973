pub mod Table
pub mod Reader
pub mod Kept
pub mod Left
