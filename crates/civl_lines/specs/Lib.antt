pub mod Rendered
pub mod Pieces
pub mod Tokens
pub mod Losing
pub mod inner
