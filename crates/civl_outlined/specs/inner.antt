pub mod Notes
pub mod Places
pub mod Said
pub mod Sums
