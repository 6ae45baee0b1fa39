pub mod Standing
pub mod Fitting
pub mod Chained
pub mod Texts
