pub mod Phasing
pub mod Reducing
pub mod Running
