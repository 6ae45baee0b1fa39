pub mod Runs
pub mod Telling
pub mod Losing
pub mod Alike
pub mod Arranging
pub mod Pairing
pub mod Listed
pub mod Modes
