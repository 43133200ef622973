pub mod SetCommands
