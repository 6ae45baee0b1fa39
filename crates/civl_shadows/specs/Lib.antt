pub mod Frames
pub mod Notes
pub mod Shadows
pub mod inner
