pub mod Among
pub mod Beginnings
pub mod Noted
pub mod inner
