pub mod Powers
pub mod Bits
pub mod Moves
pub mod Sums
pub mod Widths
pub mod SignedOrder
pub mod Cells
