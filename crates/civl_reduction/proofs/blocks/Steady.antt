pub mod Listing
pub mod Losing
pub mod Keeping
