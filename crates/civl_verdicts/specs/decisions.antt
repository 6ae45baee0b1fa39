pub mod Numbered
pub mod Decided
pub mod Laws
