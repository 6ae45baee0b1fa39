pub mod Told
pub mod Sound
