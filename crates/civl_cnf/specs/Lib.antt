pub mod Literal
pub mod ClauseSet
pub mod Gates
