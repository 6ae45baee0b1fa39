pub mod Stands
pub mod History
pub mod Laws
pub mod examples
pub mod inner
