pub mod Loads
pub mod Replays
pub mod Records
pub mod Once
