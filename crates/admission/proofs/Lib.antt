pub mod Levels
pub mod Joining
pub mod Packed
