pub mod Agreeing
pub mod Asked
pub mod Beginning
pub mod Sorted
pub mod Existing
