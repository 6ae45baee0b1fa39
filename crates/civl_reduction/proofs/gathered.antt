pub mod Moving
pub mod Stages
mod Offering
mod Gathering
