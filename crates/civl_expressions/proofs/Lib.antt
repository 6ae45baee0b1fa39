pub mod OfNames
pub mod Lists
pub mod OfExprs
pub mod OfHeadings
