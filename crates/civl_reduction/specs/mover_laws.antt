pub mod Movers
pub mod Neighbours
