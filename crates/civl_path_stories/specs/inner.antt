pub mod Routes
pub mod Others
