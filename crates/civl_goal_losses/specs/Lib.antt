pub mod GoalLosses
pub mod Laws
pub mod examples
pub mod inner
