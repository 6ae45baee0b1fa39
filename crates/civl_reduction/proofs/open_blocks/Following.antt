pub mod Onward
pub mod Leading
pub mod Frames
