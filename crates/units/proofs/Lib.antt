mod Sizes
pub mod Unique
