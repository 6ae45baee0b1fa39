pub mod Walks
pub mod First
pub mod Judged
