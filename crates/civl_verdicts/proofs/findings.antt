pub mod Each
pub mod Sorted
pub mod Surveying
