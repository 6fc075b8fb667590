pub mod Range
pub mod Shares
pub mod Bounds
pub mod Example
