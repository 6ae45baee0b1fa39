pub mod Following
pub mod Ends
pub mod Rounds
pub mod Open
