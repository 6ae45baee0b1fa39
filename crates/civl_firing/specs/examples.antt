pub mod Written
pub mod Operators
pub mod Scopes
