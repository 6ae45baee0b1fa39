pub mod Interleavings
pub mod Exchange
