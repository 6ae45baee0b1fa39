pub mod Node
pub mod Standing
