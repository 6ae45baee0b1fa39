pub mod Making
pub mod Widths
pub mod Leaving
