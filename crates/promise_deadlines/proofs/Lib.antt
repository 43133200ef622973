pub mod Formed
pub mod Account
pub mod Identity
pub mod Machines
