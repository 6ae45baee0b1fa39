pub mod Asked
pub mod values
