mod Parts
pub mod Unique
pub mod Given
