mod Meanings
pub mod Failures
mod Strides
mod Besides
mod Picking
mod Placing
mod Walks
mod Fronts
mod Fewer
mod Offers
mod Goings
mod Prolonged
mod Joinings
mod Rooms
mod Starts
mod Wholes
