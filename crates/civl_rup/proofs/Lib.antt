pub mod Entailing
pub mod Replays
pub mod LawLemmas
pub mod Standings
pub mod Hints
