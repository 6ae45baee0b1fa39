pub mod Examined
pub mod proof_reports
