pub mod Digits
pub mod Same
pub mod Neighbours
pub mod Shifts
pub mod Compass
