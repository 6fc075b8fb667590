pub mod Exact
pub mod Error
pub mod Sums
pub mod Dyadic
pub mod Whole
pub mod Range
