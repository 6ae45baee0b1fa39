pub mod Listed
pub mod Asking
pub mod Making
