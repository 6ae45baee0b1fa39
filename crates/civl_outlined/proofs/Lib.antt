pub mod Owning
pub mod Noted
pub mod Stating
pub mod Plain
pub mod Totals
pub mod Rooted
pub mod Fitted
