pub mod ReplayCommands
pub mod Records
