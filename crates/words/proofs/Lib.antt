mod Table
pub mod Unique
pub mod Room
