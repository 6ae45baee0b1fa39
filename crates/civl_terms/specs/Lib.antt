pub mod Graphs
pub mod Weights
pub mod Building
pub mod foldings
pub mod examples
