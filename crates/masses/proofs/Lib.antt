pub mod Vertex
pub mod Unique
