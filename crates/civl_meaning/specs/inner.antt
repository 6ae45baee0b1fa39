pub mod Callees
pub mod Filled
pub mod Left
