pub mod Past
pub mod Items
pub mod Placing
pub mod Frames
pub mod Losing
