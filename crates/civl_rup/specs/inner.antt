pub mod Following
pub mod Standing
