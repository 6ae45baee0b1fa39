pub mod Expected
pub mod Laws
pub mod inner
pub mod examples
