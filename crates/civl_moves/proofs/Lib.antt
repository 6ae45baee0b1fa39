pub mod Scoping
pub mod Locals
pub mod States
pub mod Moving
pub mod Calling
pub mod Stopping
pub mod Picking
pub mod Leaving
