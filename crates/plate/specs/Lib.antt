pub mod Plate
pub mod Parts
