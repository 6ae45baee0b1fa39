pub mod Given
pub mod Routes
pub mod Asking
