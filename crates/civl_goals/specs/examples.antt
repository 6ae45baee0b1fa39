-- Worked examples.
pub mod Flag
