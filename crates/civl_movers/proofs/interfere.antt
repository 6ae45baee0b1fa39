pub mod Arguing
pub mod Gathering
pub mod Starting
pub mod Counting
pub mod Beside
pub mod Telling
