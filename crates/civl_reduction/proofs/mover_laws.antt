pub mod Meeting
pub mod Moving
pub mod Instance
pub mod Configurations
pub mod Exchanging
