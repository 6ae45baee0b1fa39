pub mod Arranged
pub mod Completed
pub mod Offering
pub mod Places
pub mod Segments
pub mod Shortened
pub mod Turning
pub mod Walked
