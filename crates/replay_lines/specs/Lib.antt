pub mod Replaying
pub mod Replay
pub mod Printed
