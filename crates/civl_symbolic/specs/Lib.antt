pub mod Symbolic
pub mod examples
