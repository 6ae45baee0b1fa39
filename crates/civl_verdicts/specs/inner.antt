pub mod decisions
pub mod models
