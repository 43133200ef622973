-- One outcome of a command. Assumes nothing.
pub mod Once
