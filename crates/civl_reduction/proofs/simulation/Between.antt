pub mod Safe
pub mod Waiting
