pub mod Balance
pub mod Ledger
pub mod Views
