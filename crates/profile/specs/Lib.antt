pub mod Reading
pub mod Profile
pub mod Inner
