pub mod Folding
pub mod Shift
