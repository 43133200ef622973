pub mod Tests
pub mod Traces
pub mod Words
pub mod Nexts
pub mod Fills
pub mod Orders
