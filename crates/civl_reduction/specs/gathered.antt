pub mod System
pub mod Offered
pub mod Laws
