pub mod Nests
pub mod OfPrograms
pub mod Shallow
pub mod Sizes
pub mod OfScripts
pub mod Printed
