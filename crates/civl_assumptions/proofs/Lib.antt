pub mod Few
pub mod Hold
pub mod Listed
pub mod Violating
pub mod Telling
pub mod Beginning
