pub mod Operating
pub mod Sorting
pub mod Zeros
