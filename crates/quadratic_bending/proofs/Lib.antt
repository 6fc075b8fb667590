pub mod Given
pub mod BendingAnswer
