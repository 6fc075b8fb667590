pub mod Refusal
pub mod Numbers
pub mod Meanings
pub mod Answers
pub mod Panel
pub mod Listed
pub mod Left
