pub mod Asked
pub mod Choices
pub mod Faults
pub mod Frames
pub mod Moves
