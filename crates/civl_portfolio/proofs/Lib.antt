pub mod Fates
pub mod Rules
pub mod Rounds
pub mod Firsts
pub mod Samples
