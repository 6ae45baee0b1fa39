pub mod Merging
pub mod Stepping
