pub mod Preserving
