pub mod Acting
pub mod Adding
pub mod Naming
pub mod Groups
pub mod Meeting
pub mod Pathing
pub mod Finding
pub mod Few
