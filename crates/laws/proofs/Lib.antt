pub mod Tests
pub mod Lists
pub mod Every
pub mod Marks
pub mod One
