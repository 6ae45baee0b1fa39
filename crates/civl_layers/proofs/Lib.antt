pub mod Signatures
pub mod Cutting
pub mod Answering
pub mod Telling
pub mod PlainPrograms
pub mod Counting
pub mod Few
