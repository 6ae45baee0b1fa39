pub mod Attempt
pub mod Prover
pub mod Fate
pub mod Asked
pub mod First
pub mod Laws
pub mod inner
