pub mod Verdicts
pub mod Making
pub mod Lightness
pub mod Surveys
