pub mod Courses
pub mod Ways
