pub mod Held
pub mod Answers
pub mod Listed
pub mod Told
