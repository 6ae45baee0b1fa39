pub mod Phrases
pub mod Copies
pub mod Trial
pub mod Laws
