pub mod Accounted
pub mod Inner
