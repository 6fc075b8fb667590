pub mod PlateAnswer
pub mod MassesReturns
pub mod MassesAnswer
pub mod Vertex
pub mod Triangles
