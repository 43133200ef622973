-- Where the office reader stands after a step. Assumes nothing.
pub mod Standing
