pub mod Unique
pub mod Young
pub mod Words
