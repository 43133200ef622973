pub mod Tidied
