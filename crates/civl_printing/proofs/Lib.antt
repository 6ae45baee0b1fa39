mod Joining
pub mod Writing
