pub mod CellsRead
pub mod Placing
pub mod ReadingAll
