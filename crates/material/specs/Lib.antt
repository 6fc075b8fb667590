pub mod Material
