pub mod Whole
pub mod Starts
pub mod Steps
