pub mod Marked
pub mod Deciding
