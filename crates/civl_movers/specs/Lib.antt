pub mod Runs
pub mod Items
pub mod Settings
pub mod interfere
pub mod inner
