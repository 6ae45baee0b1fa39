pub mod Flag
pub mod Increments
