pub mod Stepping
pub mod Above
pub mod Outside
