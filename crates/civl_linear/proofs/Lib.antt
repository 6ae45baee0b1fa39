pub mod Passed
pub mod Traces
pub mod Flagged
pub mod Answering
pub mod Limits
pub mod Judged
pub mod Examples
pub mod Beside
