pub mod Unhexed
