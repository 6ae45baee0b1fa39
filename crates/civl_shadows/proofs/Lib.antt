pub mod Dropping
mod Merges
pub mod Goings
mod Calls
mod Effects
