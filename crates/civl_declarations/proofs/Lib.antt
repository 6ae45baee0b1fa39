pub mod OfActions
pub mod OfDeclarations
pub mod OfSteps
