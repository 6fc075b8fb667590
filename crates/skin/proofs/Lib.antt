pub mod SkinAnswer
pub mod Sum
pub mod Vertex
pub mod Empty
pub mod Stiffness
pub mod Young
