pub mod OfOutlines
