pub mod Kept
pub mod Losing
pub mod Making
pub mod Others
