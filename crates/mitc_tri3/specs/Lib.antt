pub mod Plate
pub mod Masses
pub mod Example
