pub mod Beginnings
pub mod Losses
pub mod Stories
pub mod Laws
pub mod inner
pub mod examples
