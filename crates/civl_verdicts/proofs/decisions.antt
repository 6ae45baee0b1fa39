pub mod Powers
pub mod Numbers
pub mod Concluding
pub mod Rounds
