pub mod Happenings
pub mod Figures
pub mod Account
pub mod Levels
pub mod History
pub mod Words
pub mod Inner
