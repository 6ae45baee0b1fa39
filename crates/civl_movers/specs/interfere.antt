pub mod Arguments
pub mod Acting
pub mod Kinds
