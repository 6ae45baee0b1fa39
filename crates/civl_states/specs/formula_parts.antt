pub mod Said
pub mod Lists
pub mod Given
pub mod Masks
