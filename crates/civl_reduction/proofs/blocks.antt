pub mod Standing
pub mod Steady
pub mod Merged
