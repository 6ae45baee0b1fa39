pub mod Scoping
pub mod Widths
pub mod Slots
pub mod Powers
pub mod Answering
pub mod Telling
