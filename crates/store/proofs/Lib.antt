pub mod Ring
pub mod Cells
pub mod Probes
pub mod Trees
pub mod Growth
