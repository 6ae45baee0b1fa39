pub mod Beside
pub mod Counting
pub mod Filtered
pub mod Meeting
pub mod Outputs
