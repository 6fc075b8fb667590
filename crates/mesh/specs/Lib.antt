pub mod Text
pub mod Items
pub mod Mesh
pub mod Rules
pub mod Blocks
pub mod Writer
pub mod Found
