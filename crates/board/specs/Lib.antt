pub mod Pieces
pub mod Letters
pub mod Planes
pub mod Cells
pub mod Standing
pub mod Counts
pub mod Refusals
pub mod Reading
