pub mod Rule
pub mod Unique
pub mod RootOf
pub mod Square
pub mod Fields
