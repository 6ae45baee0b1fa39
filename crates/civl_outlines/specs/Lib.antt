pub mod SpellingOutline
pub mod Reading
pub mod readers
pub mod inner
