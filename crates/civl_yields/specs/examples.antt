pub mod Yard
pub mod Late
pub mod Misplaced
