pub mod Dock
pub mod Linear
pub mod Spawning
