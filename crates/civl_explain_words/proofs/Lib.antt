pub mod Numbers
pub mod Fits
pub mod Once
pub mod Found
