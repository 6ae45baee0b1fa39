pub mod Bringing
pub mod Ending
pub mod Neighbours
pub mod Placing
