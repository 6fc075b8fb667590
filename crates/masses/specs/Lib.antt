pub mod Masses
pub mod Vertex
