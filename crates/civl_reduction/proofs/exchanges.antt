pub mod Agreeing
pub mod Exchanging
pub mod Reducing
