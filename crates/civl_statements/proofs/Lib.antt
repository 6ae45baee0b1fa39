pub mod OfStmts
pub mod OfProcs
