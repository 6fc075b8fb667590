pub mod Places
pub mod Vertex
pub mod Plane
pub mod Unique
