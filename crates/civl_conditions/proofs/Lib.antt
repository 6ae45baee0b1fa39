pub mod Pushing
pub mod Placing
pub mod Calls
pub mod Behind
pub mod Everywhere
pub mod Contained
pub mod Layered
pub mod CutKinds
