pub mod Owned
pub mod Stay
pub mod Apart
pub mod examples
