pub mod Limits
pub mod Reaching
