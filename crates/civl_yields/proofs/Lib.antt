pub mod Stepping
pub mod Insides
pub mod Answering
pub mod Listings
pub mod Examples
pub mod Growing
pub mod Beside
