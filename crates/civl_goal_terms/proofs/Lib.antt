mod Holding
mod HoldingWords
mod Noting
mod Parting
mod Assuming
mod Beginning
mod OthersFiring
mod OthersBeside
mod OthersVariables
pub mod Sorting
pub mod Choosing
pub mod Stepping
pub mod Leading
pub mod Placing
pub mod Branching
pub mod Framing
pub mod Standing
pub mod Listing
pub mod Concluding
pub mod Scoping
pub mod Outlining
pub mod Keeping
