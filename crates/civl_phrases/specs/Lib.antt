pub mod Bracket
pub mod Reader
pub mod List
pub mod Table
pub mod Leaf
pub mod Phrase
pub mod Exact
pub mod Laws
