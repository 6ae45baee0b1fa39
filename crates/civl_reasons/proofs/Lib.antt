pub mod Counts
pub mod Parts
pub mod Adding
pub mod Once
pub mod Reasoning
pub mod Standing
pub mod Agreeing
