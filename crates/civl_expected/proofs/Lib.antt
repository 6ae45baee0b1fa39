pub mod Viable
pub mod Growing
pub mod Chosen
pub mod Reading
