pub mod Formulas
pub mod inner
