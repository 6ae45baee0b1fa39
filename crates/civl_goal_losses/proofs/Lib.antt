pub mod Telling
pub mod Alone
pub mod Owned
pub mod Failing
pub mod Asking
pub mod Linear
