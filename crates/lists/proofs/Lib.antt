mod Sums
pub mod Unique
