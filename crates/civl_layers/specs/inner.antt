pub mod Asked
pub mod Spans
