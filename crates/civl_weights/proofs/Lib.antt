pub mod Groups
pub mod Finding
pub mod First
