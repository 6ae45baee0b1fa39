pub mod Ending
pub mod Steps
pub mod Blocks
