pub mod Text
pub mod Lean
pub mod Laws
pub mod examples
pub mod inner
