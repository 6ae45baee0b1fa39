pub mod Around
pub mod Before
pub mod Gates
