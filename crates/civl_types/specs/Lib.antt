pub mod Views
pub mod Checked
pub mod inner
