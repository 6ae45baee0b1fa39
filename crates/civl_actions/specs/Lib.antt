pub mod Scopes
pub mod Actions
pub mod inner
