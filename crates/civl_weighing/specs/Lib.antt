pub mod Weighing
pub mod Weighed
pub mod Bits
