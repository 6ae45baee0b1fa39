pub mod Circuits
pub mod Hashing
pub mod Laws
pub mod inner
