pub mod steadiness
