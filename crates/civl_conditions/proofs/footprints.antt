pub mod Seeing
pub mod Acting
pub mod Keeping
pub mod Existing
