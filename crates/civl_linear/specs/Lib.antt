pub mod Modes
pub mod Held
pub mod Places
pub mod Cuts
pub mod LinearRules
pub mod Lengths
pub mod examples
pub mod inner
