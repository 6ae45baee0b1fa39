pub mod Clearing
pub mod Locking
pub mod Pooling
