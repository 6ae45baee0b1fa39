pub mod Trace
pub mod Sound
pub mod examples
