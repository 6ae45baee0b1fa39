pub mod Blocks
pub mod Yard
