pub mod Proving
pub mod Reports
pub mod Agreement
pub mod Laws
