pub mod Outlined
pub mod inner
