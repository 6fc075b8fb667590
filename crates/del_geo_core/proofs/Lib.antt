pub mod Unique
pub mod Turn
