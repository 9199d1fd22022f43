mod Roots
mod Memory
mod Joined
mod Said
mod Admission
mod Walk
pub mod Laws
pub mod Beside
mod Vectors
pub mod Once
