pub mod Reaching
pub mod Marks
pub mod Laws
