mod Calls
pub mod Telling
mod Going
mod Changes
mod Within
mod Turning
mod Sound
pub mod Known
mod Walks
mod Leading
