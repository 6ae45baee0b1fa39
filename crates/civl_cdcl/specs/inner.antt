pub mod Analysis
pub mod Levels
pub mod Notes
pub mod Order
pub mod Propagation
