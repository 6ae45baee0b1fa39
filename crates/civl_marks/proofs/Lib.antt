pub mod Small
pub mod Told
pub mod Exchanging
pub mod Beside
