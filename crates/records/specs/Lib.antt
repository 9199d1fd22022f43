pub mod Form
pub mod Event
pub mod Event16
pub mod Rows
pub mod Moves
pub mod Kinds
pub mod Promised
pub mod Inner
