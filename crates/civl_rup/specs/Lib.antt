pub mod Rup
pub mod Laws
pub mod inner
