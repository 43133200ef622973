pub mod CableCommands
