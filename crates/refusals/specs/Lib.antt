pub mod Numbers
pub mod Inner
