pub mod Standings
pub mod Tries
pub mod Branches
pub mod Nodes
pub mod Steps
pub mod Squares
