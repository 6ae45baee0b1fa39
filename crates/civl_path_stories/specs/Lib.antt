pub mod Around
pub mod Paths
pub mod examples
pub mod inner
pub mod Laws
