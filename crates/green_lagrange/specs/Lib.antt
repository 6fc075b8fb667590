pub mod Fraction
pub mod Sheet
pub mod Book
