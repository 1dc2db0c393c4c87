pub mod Words
pub mod Tallies
