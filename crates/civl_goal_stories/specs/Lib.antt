pub mod Places
pub mod Frames
pub mod GoalStories
pub mod Assumed
pub mod Laws
pub mod examples
