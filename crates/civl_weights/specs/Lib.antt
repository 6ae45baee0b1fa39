pub mod Kinds
pub mod Heavy
pub mod sums
pub mod inner
