pub mod CheckCommands
