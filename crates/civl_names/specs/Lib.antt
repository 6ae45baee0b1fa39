pub mod walks
pub mod inner
