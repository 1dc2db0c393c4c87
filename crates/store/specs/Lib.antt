pub mod Views
pub mod Cells
pub mod Probes
pub mod Trees
