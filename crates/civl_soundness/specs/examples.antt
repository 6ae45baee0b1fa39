pub mod Increments
pub mod Putting
