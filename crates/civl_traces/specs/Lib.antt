pub mod Traces
pub mod Told
pub mod Turns
pub mod Laws
pub mod inner
pub mod examples
