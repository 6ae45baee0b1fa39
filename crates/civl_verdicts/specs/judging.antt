pub mod Made
pub mod Searches
