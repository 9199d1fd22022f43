pub mod Newest
pub mod Inner
