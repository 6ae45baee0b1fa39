pub mod Reasons
pub mod Reads
pub mod Stands
pub mod Laws
pub mod inner
pub mod examples
