pub mod Saying
pub mod Listing
pub mod Giving
pub mod Masks
pub mod Carrying
pub mod CarriedWeights
