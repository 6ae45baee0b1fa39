pub mod Copying
pub mod Numbering
pub mod Naming
pub mod Fitting
pub mod Spelled
