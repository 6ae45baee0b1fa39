pub mod Gathering
pub mod Places
pub mod Counting
pub mod Standing
