pub mod Stvk
pub mod Parts
