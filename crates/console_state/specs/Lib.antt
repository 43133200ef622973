pub mod StateCommands
pub mod ConsoleRuns
