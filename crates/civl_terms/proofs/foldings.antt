pub mod Numbers
pub mod Bitwise
pub mod Signed
pub mod Words
pub mod Keeping
pub mod Rows
pub mod Choices
