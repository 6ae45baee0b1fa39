pub mod Analysing
mod Lessons
mod Turning
pub mod Outcomes
pub mod Examples
mod Counting
pub mod Placing
