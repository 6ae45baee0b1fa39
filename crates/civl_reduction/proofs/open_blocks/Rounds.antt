pub mod Nesting
pub mod Coming
