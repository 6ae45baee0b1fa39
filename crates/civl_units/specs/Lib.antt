pub mod Propagation
pub mod Laws
pub mod Trail
pub mod Occurrences
pub mod Marks
