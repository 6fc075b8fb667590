pub mod First
pub mod Survey
