mod Tests
pub mod Unique
pub mod Examples
