pub mod SentPlace
pub mod Shapes
pub mod Registers
pub mod Finding
pub mod Changing
pub mod Moving
pub mod Differing
pub mod Gaps
