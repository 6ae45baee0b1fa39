pub mod Joining
pub mod Withs
pub mod Concluding
