pub mod Collecting
pub mod Finding
pub mod Walking
pub mod Placing
pub mod Refusing
pub mod Judging
