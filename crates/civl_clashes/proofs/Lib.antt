pub mod Past
pub mod Offering
pub mod Lengths
pub mod Telling
pub mod Clashing
pub mod Losses
pub mod Targets
pub mod Violating
