pub mod Given
pub mod StrainAnswer
pub mod EnergyAnswer
