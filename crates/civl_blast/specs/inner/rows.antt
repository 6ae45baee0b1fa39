pub mod Expanding
pub mod Making
