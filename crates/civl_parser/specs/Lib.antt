pub mod Parsing
pub mod readers
pub mod inner
