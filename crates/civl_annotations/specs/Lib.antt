pub mod Bare
pub mod Kept
pub mod Alike
pub mod Annotated
pub mod Filled
pub mod FilledLaws
pub mod examples
