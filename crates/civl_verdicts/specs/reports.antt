pub mod Lines
pub mod Values
pub mod Findings
pub mod Laws
