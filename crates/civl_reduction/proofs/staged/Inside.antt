pub mod Beside
pub mod Safe
