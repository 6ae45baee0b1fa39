pub mod Evidence
pub mod Agreeing
pub mod Placed
