pub mod readers
