pub mod sums
