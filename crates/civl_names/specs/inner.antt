pub mod InScope
pub mod NameSets
pub mod Strange
pub mod walks
