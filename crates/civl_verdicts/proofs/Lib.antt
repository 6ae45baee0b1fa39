pub mod Excluding
