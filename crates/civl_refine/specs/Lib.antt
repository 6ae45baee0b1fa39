pub mod Assuming
pub mod Judging
pub mod Ways
pub mod Failing
pub mod Kinds
pub mod Walked
pub mod steadiness
pub mod inner
