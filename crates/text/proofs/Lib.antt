pub mod Lists
pub mod Numerals
pub mod Bytes
pub mod Ranges
pub mod Runs
pub mod Taking
pub mod Passing
pub mod InBase
pub mod Written
pub mod Sizes
pub mod Decimal
mod Vectors
