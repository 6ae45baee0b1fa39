pub mod Filling
pub mod Seen
pub mod Between
pub mod Joining
pub mod Standing
pub mod Failed
pub mod Changing
