pub mod Probe
pub mod Branch
pub mod Splitter
pub mod Laws
pub mod inner
