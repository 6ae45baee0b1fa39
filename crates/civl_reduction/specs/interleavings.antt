pub mod Systems
pub mod Runs
pub mod Reduction
pub mod Simulation
pub mod Threads
pub mod examples
