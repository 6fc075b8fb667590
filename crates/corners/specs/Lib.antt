pub mod Plane
pub mod Space
