-- The replay of a recording. Assumes nothing.
pub mod Reading
pub mod Tapes
pub mod Cab
pub mod Stops
pub mod Recorder
pub mod Prints
