pub mod Tri2
pub mod Tri3
pub mod Edge
pub mod CurveLinearCoords
pub mod Mat3RowMajor
