pub mod Traces
pub mod Taking
