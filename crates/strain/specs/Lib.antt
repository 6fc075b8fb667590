pub mod Strain
