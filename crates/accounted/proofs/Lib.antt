pub mod Taken
pub mod Answered
pub mod Copied
