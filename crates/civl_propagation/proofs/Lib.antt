pub mod Trails
pub mod Cutting
pub mod Serving
pub mod Engines
pub mod Watching
pub mod Visiting
pub mod Choosing
pub mod Spans
