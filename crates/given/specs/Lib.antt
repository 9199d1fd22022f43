pub mod Names
pub mod Given
pub mod Parts
pub mod Inner
