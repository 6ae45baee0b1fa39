pub mod Listing
pub mod Concluding
