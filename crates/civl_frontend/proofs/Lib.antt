pub mod Lawful
pub mod Reading
pub mod Accepting
pub mod Once
pub mod Streaming
pub mod Telling
