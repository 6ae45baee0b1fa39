pub mod Aiming
pub mod Ending
pub mod Framing
pub mod Arranged
