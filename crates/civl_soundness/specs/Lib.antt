pub mod Scope
pub mod Fired
pub mod Config
pub mod Stepped
pub mod examples
