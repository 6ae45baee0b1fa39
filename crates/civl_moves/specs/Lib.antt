pub mod Expressions
pub mod States
pub mod Calls
pub mod Branches
pub mod sweeps
