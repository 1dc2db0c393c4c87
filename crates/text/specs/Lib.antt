pub mod Parting
pub mod Numerals
pub mod Fields
