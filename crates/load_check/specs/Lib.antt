pub mod Dues
pub mod Blocked
pub mod Lengths
pub mod Sheets
