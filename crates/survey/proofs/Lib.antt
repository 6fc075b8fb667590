mod Chains
pub mod First
mod Masses
mod Places
pub mod Unique
