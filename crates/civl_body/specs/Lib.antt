pub mod Walks
pub mod Passing
pub mod Weights
pub mod inner
