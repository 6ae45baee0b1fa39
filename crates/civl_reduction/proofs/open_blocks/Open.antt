pub mod Introducing
pub mod Inputs
pub mod Choices
pub mod Going
pub mod Opening
pub mod Ending
pub mod Cuts
