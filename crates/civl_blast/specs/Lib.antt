pub mod Standing
pub mod Laws
pub mod reach
pub mod rows
pub mod inner
pub mod examples
