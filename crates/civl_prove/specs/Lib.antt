pub mod Proved
pub mod Searches
pub mod outline_reports
