pub mod Texts
pub mod Runs
pub mod Pieces
pub mod Vectors
pub mod Times
