pub mod Beside
pub mod Scanning
pub mod Written
pub mod Quiet
