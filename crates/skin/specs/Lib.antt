pub mod Sums
pub mod Skin
pub mod Parts
