pub mod Meets
pub mod Refined
pub mod Followed
pub mod Between
pub mod Carried
pub mod Preserved
