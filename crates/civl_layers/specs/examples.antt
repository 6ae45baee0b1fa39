pub mod Tower
pub mod Range
pub mod Hidden
pub mod Calls
pub mod Introduced
pub mod Cuts
