pub mod Meaning
pub mod Inputs
pub mod Frames
pub mod Returning
pub mod Entering
pub mod Above
