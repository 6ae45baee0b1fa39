pub mod Outlined
pub mod Stands
pub mod Safe
pub mod examples
