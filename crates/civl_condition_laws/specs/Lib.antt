pub mod States
pub mod examples
