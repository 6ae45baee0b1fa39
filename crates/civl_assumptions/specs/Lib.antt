pub mod Names
pub mod Assumptions
pub mod Lines
pub mod Laws
pub mod inner
