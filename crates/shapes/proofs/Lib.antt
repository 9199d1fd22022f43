pub mod Tables
pub mod Exact
pub mod Parts
pub mod Valid
