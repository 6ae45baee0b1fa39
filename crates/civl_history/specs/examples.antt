pub mod Flag
pub mod Increments
pub mod Steps
