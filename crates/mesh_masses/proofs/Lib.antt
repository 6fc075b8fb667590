pub mod Lists
pub mod Unique
