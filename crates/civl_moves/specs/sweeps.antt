pub mod Sweeps
pub mod Draws
pub mod Flowing
