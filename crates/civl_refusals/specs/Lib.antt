pub mod Refusals
pub mod Heavy
pub mod Scripts
pub mod Outlines
pub mod Laws
pub mod examples
