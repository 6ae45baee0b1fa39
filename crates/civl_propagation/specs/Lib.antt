pub mod Trail
pub mod Propagation
pub mod Clauses
pub mod Engine
pub mod Watches
pub mod inner
