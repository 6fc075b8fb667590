pub mod Writing
mod Filling
mod Shown
pub mod Unique
