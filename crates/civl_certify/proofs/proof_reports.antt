pub mod Leaning
pub mod Finding
pub mod Alone
pub mod Agreeing
pub mod Deciding
pub mod Running
pub mod Scanning
pub mod Existing
