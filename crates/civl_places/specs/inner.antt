pub mod Begin
pub mod Searched
pub mod Walked
pub mod Kinds
