pub mod Renaming
pub mod Steps
pub mod rows
