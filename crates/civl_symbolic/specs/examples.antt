pub mod Symbolic
