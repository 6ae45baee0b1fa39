pub mod Gates
pub mod Gliding
pub mod Waiting
pub mod Quiet
pub mod Chaining
pub mod Yielding
