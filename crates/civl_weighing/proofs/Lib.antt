pub mod Capping
pub mod Summing
pub mod Operations
pub mod Listing
