pub mod Status
pub mod Texts
pub mod Reader
pub mod Rules
pub mod Report
pub mod Streams
pub mod Told
pub mod Call
