pub mod Others
pub mod Marks
pub mod Laws
