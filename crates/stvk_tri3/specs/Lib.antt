pub mod Strain
pub mod GreenLagrange
pub mod Stvk
pub mod Example
