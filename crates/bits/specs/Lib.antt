pub mod Digits
pub mod Squares
pub mod Planes
