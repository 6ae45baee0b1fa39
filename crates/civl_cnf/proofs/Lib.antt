pub mod Satisfying
pub mod Extending
pub mod Tables
pub mod Literals
