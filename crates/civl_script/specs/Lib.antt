pub mod Values
pub mod Schedules
pub mod Laws
pub mod replays
pub mod examples
