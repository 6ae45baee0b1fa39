pub mod Baring
pub mod Spots
pub mod Doing
pub mod Running
pub mod Keeping
pub mod Filling
pub mod Restoring
pub mod Having
