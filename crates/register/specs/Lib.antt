pub mod SentPlace
pub mod Register
