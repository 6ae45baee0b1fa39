pub mod Gap
pub mod Laws
pub mod Lexical
pub mod Spelled
pub mod Spells
pub mod Text
pub mod inner
