pub mod Outcome
pub mod Turn
pub mod Laws
pub mod inner
