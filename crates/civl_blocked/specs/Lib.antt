pub mod Blocked
pub mod inner
