pub mod Operators
pub mod Values
pub mod Weights
pub mod ActionWeights
