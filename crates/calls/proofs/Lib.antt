pub mod Cases
pub mod Armed
pub mod Timed
pub mod Steps
pub mod Offers
pub mod AwayTests
pub mod Away
