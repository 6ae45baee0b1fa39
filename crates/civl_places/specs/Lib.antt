pub mod Lines
pub mod Starts
pub mod Formulas
pub mod Placed
pub mod Laws
pub mod inner
pub mod examples
