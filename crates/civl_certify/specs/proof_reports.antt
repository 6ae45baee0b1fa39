pub mod Making
pub mod Replaying
pub mod Reports
pub mod Agreement
pub mod Laws
