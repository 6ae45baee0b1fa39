pub mod Scripts
pub mod Carets
