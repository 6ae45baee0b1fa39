pub mod Read
pub mod Histories
