pub mod Constants
pub mod Folding
pub mod Laws
