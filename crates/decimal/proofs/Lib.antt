pub mod Nearest
pub mod Amounts
mod Values
mod Digits
pub mod Texts
pub mod Scans
mod Examples
