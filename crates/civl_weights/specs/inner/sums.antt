pub mod Met
pub mod Paths
