pub mod Equality
pub mod Words
