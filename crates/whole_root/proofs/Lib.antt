pub mod Turn
pub mod Starts
pub mod Whole
pub mod Unique
