pub mod Wipes
pub mod Resets
