pub mod Replays
pub mod Stops
pub mod Recorder
pub mod Prints
