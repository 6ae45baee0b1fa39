pub mod Pooled
pub mod Watched
