pub mod Certified
pub mod Agreement
pub mod Laws
pub mod proof_reports
pub mod inner
