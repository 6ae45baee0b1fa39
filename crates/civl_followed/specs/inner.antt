pub mod Along
pub mod Frames
