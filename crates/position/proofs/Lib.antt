pub mod Words
pub mod Checks
