pub mod Shear
