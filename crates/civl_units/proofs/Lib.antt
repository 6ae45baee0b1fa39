pub mod MarkLemmas
pub mod Propagating
pub mod Trails
pub mod Assumed
pub mod LawLemmas
pub mod Listing
pub mod Visiting
