pub mod Cut
pub mod Tables
pub mod Loops
pub mod Pieces
pub mod Roots
pub mod Fields
pub mod Longest
pub mod Line
pub mod Lines
pub mod Reading
pub mod ReadBack
pub mod Lent
pub mod Greatest
mod Vectors
