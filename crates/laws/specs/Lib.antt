pub mod Lists
pub mod Bits
pub mod Multiples
