pub mod Trimmed
